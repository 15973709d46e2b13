-- Stages: from an operation's answer to the text. Short: how long a text can be.
pub mod Stages
pub mod Short
