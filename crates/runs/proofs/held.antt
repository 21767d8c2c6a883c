pub mod StartHolds
