pub mod BlockHolds
