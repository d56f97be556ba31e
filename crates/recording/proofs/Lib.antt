pub mod DayLaws
pub mod ByteLaws
pub mod LineLaws
