-- What an answer that is not refused says of its stages; the claims; an enquiry whose flame is too low; the definition of before request 13.
pub mod Below
pub mod Claims
pub mod Examples
pub mod Former
