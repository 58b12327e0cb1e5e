pub mod CarriedOut
pub mod JobLaws
pub mod OneReply
pub mod SomeReply
