pub mod EnoughDeclarations
