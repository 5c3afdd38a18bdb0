mod OwnIds
mod HeardJobs
mod Answering
mod HeardReplies
mod RequestsRead
mod RequestRows
