-- Request 10 of document 02: a list of calls on the register and what each was answered, and what is claimed of the register after it.
-- Request 11: what is claimed of two calls in either order, and of a pool that is lit and put out again.
-- Request 12: what is claimed of the pools that put the sum of lows over a limit.
pub mod History
pub mod Claims
pub mod OrderClaims
pub mod WhichClaims
