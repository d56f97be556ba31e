pub mod CallLaws
pub mod SilentLaws
