-- Lemmas on runs.

-- of Printing: what is printed is read, and what is written behind one another
pub mod PrintedLines
-- of Refusals and Outcomes: how a run ends that reads no document
pub mod Refused
-- of Words: the arguments of the command, and what a parse found of them
pub mod Arguments
