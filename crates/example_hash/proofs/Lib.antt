-- Lines that tell documents apart.
pub mod LinesApart
