-- why the code gives the table's bytes
pub mod Pages
pub mod Words
