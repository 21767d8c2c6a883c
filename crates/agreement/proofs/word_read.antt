pub mod BitByBit
