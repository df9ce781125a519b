-- What only contracts of private functions cite.
pub mod LoadLists
pub mod WordsLaid
pub mod ValuesLaid
