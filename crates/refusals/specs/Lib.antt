pub mod Refusal
pub mod RefusalLaws
pub mod Refusals
pub mod RefusalsLaws
