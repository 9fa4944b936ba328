-- Of the laws of kinds.

-- of Reading.Laws: the laws of a kind from six facts
pub mod KindLaws
-- of Flaws: what is found of two parts, and that flaws tell what the side conditions do
pub mod FlawsTold
-- of PrintedKinds: what is promised of a printed kind, from its part and laws, and how its type is compared and hashed
pub mod PrintedKinds
