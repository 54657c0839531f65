pub mod CommandLine
pub mod Cuts
pub mod Defaults
pub mod Flags
pub mod MadeJobs
pub mod Spans
