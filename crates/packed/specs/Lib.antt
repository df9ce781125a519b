-- The packed trace file. Layout has its bytes, Entry and FileRead what any bytes whatever are read as, Write what the writer answers; WholeFile holds both to lost cores; FileCases says when a file is turned back.
pub mod Layout
pub mod Entry
pub mod FileRead
pub mod Write
pub mod WholeFile
pub mod FileCases
