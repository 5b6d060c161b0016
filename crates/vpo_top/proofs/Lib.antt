mod Reports
mod Counts
mod Compilations
mod Requests
mod Steps
mod Verdicts
mod Runs
mod Answers
