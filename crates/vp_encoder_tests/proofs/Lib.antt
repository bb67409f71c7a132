pub mod FlatFrames
