mod Answering
mod Streams
