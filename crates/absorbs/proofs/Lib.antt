-- (a) Writes: page writes that the log has images of. (b) Overlay: slots of ids that the log has a word on, and a reset. (b') Thins: a compaction. (c) Gone: the log
-- itself, where the files have all it says. (d) Parts: the first bytes of a record. Opens has what all of them are said in.
pub mod Opens
pub mod Writes
pub mod Overlay
pub mod Thins
pub mod Parts
pub mod Gone
pub mod Vectors
