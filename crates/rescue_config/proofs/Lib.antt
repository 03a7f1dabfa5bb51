pub mod Reading
pub mod RuleLists
pub mod Tables
pub mod Results
pub mod FilesShown
