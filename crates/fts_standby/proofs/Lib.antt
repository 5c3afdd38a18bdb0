pub mod Prefixes
pub mod Taking
mod Bodies
mod AskedTries
mod GrownJournals
mod MadeRequests
mod NextEntries
mod TakenEntries
mod FollowedCalls
mod WrittenOut
mod Showing
pub mod ReachedWorlds
mod Answered
