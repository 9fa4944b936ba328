-- What the calls of the C interface answer, and what they leave in the caller's buffer.

-- the statuses, by their numbers
pub mod Statuses
-- what each call answers
pub mod Answers
-- texts and messages in a buffer
pub mod Messages
-- why no tree was read
pub mod Refusals
-- what a print does with a buffer
pub mod Buffers
-- lemmas that impls cite, no definitions
pub mod lemmas
