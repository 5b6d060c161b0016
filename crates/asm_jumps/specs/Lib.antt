pub mod LabelPlaces
