pub mod SameForm
