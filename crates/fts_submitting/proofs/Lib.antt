mod FailedTries
