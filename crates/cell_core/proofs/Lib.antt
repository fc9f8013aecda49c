pub mod DigitsAreDots
pub mod DotsLaws
pub mod MaskLaws
pub mod ReadCells
pub mod AsciiLaws
