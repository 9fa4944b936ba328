-- Lemmas that impls and the crates above cite, no definitions: each body and kind as a part, and its laws.

-- each body as a part, put together of its parts
pub mod Bodies
-- the laws of the sixteen kinds
pub mod Kinds
-- of the flaws of kinds: they tell what the side conditions do
pub mod FlawsTold
