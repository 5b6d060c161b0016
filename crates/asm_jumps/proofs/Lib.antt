pub mod LabelsLeft
