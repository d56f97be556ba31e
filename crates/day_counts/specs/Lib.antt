pub mod DayCounts
