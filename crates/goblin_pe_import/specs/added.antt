pub mod ImportCursors
pub mod ImportWalks
pub mod Libraries
pub mod StepsAhead
pub mod TestedTables
pub mod WholeReads
