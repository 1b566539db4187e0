pub mod Arguments
pub mod AuthorRequest
pub mod AuthorReply
pub mod AcctRequest
pub mod AcctReply
pub mod Argument
pub mod Line
pub mod Record
