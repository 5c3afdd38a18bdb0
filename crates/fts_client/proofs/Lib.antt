pub mod GrownLists
pub mod KeptWorlds
pub mod HeardRuns
pub mod HeardTries
pub mod DigitBytes
pub mod OpenRequests
pub mod WrittenBack
mod CountedDials
mod OneTry
pub mod PushedTries
mod FailedLines
mod MoreTries
mod BodyValues
mod HeardEnds
mod WorldRows
mod EndRows
mod HeardRows
