pub mod Feeding
pub mod Serving
pub mod Many
pub mod Program
