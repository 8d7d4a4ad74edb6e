pub mod EntryPoints
pub mod Refusals
pub mod Agreement
pub mod DistinctNames
pub mod StoredKeys
pub mod PackKeys
pub mod SameEntities
pub mod NightListing
pub mod Listings
pub mod Merging
pub mod ProofSet
pub mod LineEntries
mod MapLaws
mod MapListed
mod MapRange
mod Listed
mod Consequence
mod RefusalLaws
mod JsonOutcomes
mod JsonReading
mod LineTexts
mod Walked
mod Judged
mod Left
mod Laying
mod Standing
mod NodesCounted
mod EntryReading
mod Stretched
mod MergeOrder
mod FirstFall
mod TrimmedTexts
mod LaidLines
mod MergedLogs
mod Facts
mod Examples
mod JsonExamples
mod MergeExamples
mod MapExamples
