pub mod Frame
pub mod FrameWires
