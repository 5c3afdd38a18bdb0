pub mod WaitingData
