pub mod RingDescriptors
