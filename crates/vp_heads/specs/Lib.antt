pub mod Heads
pub mod Numbers
pub mod Fields
pub mod Ranges
pub mod Routes
pub mod Requests
pub mod Replies
