pub mod Numbers
pub mod Cuts
pub mod Names
pub mod Plain
pub mod FieldLaws
pub mod CallLaws
pub mod ReplyLaws
pub mod LetLaws
