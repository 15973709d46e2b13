-- Stages: from an answer to the text. Short: how long a text can be. Onward: how far a program that goes on has gone. Towards the promise: Few: how many
-- ends a stretch has; Trace: the calls that a text was written for; Whole: from a watch that is begun.
pub mod Stages
pub mod Short
pub mod Onward
pub mod Few
pub mod Trace
pub mod Whole
