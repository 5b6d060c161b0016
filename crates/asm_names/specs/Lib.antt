pub mod LabelNames
