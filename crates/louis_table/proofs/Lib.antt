pub mod LineLaws
mod ReturnLaws
mod FieldLaws
pub mod CharacterLaws
mod OperandLaws
mod EntryLaws
mod VerdictLaws
pub mod ReadingLaws
mod RuleLaws
pub mod OneMeaning
pub mod StepLaws
mod MeaningLaws
mod PlaceLaws
pub mod ProfileLaws
pub mod ProfileOutcome
pub mod CellLaws
mod SuppliedTable
pub mod CellLimits
