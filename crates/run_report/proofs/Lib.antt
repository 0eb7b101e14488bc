pub mod AnswerLines
pub mod BenchLines
pub mod TotalsLine
pub mod Played
pub mod Reports
