pub mod Active
pub mod Gauge
