-- The even scaling, the first steps, and Newton's steps.
pub mod Scaling
pub mod Newton
