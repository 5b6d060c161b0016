mod Deeper
mod EnoughPrograms
