mod SpelledBytes
mod Digits
mod ShownEntries
mod ServedWorlds
mod Replies
mod FollowedService
mod RequestsRead
mod ServedKeeps
