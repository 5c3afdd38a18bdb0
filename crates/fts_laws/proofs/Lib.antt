mod Changes
mod Claimed
mod Steps
mod AttemptLists
mod EligibleLists
mod Drawn
mod Picks
mod Worked
mod StepIds
pub mod SubmissionLists
pub mod Cut
pub mod Standing
