pub mod CaselessAnswers
pub mod Laws
pub mod inside
