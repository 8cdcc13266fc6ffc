pub mod StoredLines
