-- What a talk is: the calls that a line can make, what each line is answered, and what the lines come to.
pub mod Command
pub mod LineAnswers
pub mod Noted
