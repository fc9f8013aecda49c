pub mod HistoryLists
pub mod ParagraphLists
pub mod PrintCharacters
pub mod SoundBooks
pub mod SoundEntries
pub mod SoundParagraphs
pub mod SoundSteps
