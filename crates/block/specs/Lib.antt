pub mod BlockWires
pub mod Bounds
pub mod MessageWires
pub mod Ranges
pub mod StepForms
pub mod Steps
pub mod Wires
