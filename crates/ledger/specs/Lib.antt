pub mod Numbers
pub mod Rules
pub mod RulesLaws
pub mod Words
pub mod Answer
pub mod AnswerLaws
pub mod History
pub mod HistoryLaws
