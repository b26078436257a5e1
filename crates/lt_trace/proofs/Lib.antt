pub mod HeadLaws
pub mod StepLaws
pub mod JsonLaws
pub mod Numbered
pub mod LineEnds
pub mod SortLaws
